-- How long the bytes of a shift's text can be.
mod Fits
