mod Finding
mod LoadLaws
mod Rows
mod TextLaws
