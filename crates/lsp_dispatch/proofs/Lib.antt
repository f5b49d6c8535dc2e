mod Agreement
mod LawLemmas
mod Lists
mod Live
mod Refused
mod Cases
mod Runs
