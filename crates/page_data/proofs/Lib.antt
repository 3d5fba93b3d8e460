mod Reread
mod Rows
mod Whole
