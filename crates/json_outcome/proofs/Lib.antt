mod Built
mod Lists
