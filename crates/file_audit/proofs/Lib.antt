mod Long
mod Pieces
