mod FitsLemmas
mod HullLemmas
