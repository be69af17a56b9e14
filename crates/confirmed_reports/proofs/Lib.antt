mod Plain
mod Shown
mod Told
mod Confirming
mod Causes
mod TextLengths
mod Numbers
mod CheckedReports
