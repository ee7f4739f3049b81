mod Lists
mod Passes
mod Places
mod Seen
