mod Rounds
mod Taking
