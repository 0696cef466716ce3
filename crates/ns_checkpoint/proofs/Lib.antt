mod Codes
mod OneReading
mod OneText
mod ReadLines
mod Shards
mod WrittenLines
