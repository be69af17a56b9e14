mod Pieces
mod Idleness
mod Showing
