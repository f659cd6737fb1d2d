mod Beginning
mod Begun
mod Standing
mod Turned
mod Whole
