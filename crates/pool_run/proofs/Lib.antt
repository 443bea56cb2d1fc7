mod Openings
mod LineByLine
mod Endings
mod Choosing
