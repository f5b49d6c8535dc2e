mod FileUriLemmas
mod FolderLemmas
pub mod ItemLemmas
pub mod JsonLemmas
mod MapWrites
mod OfferLemmas
pub mod ReadLemmas
mod RestLemmas
mod SymbolLemmas
pub mod WriteLemmas
