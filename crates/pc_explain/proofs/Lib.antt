mod Lengths
mod Made
mod NotesFound
mod OneText
mod Reasons
mod SameLists
mod Unset
