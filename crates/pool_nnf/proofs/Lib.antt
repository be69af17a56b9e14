mod Entries
mod Rows
mod Joining
mod Walking
