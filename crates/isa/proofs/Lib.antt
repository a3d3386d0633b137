pub mod Selecting
