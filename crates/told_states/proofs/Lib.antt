mod Pieces
mod PathEnds
mod Fits
