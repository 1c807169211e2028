-- What the proof of `gain` uses.
mod FourRays
