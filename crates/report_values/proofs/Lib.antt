mod Scans
mod Turns
