-- What cells can be drawn, and where their rectangles stand: the definitions that the contracts cite.
pub mod Colours
pub mod Runs
