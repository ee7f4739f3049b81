mod Turning
mod Ascending
mod Between
mod WayLists
