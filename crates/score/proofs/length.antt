-- What the proof of `length_with` uses.
mod Point
