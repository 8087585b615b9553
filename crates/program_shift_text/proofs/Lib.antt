-- How long the bytes of a shift's text can be, and the text of its bytes.
mod Fits
