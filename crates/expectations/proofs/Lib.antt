mod Deciding
mod Chosen
