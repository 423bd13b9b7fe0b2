mod Holding
mod Planning
mod Printing
