mod Numbered
mod Shown
