mod Unmet
mod Sizes
mod Ready
mod Confirmed
mod Converse
mod Heights
mod Ascending
