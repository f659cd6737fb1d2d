mod Beginning
mod Played
