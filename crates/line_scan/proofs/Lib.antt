mod Cutting
mod Joining
mod Numbers
