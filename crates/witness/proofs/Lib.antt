mod Marks
mod Holding
mod Rounds
