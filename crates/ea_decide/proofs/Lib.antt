mod Fragments
mod Sums
mod Handed
mod Refuting
mod Numbers
mod Meaning
mod Transfers
