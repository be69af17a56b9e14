mod Asked
mod Fitting
