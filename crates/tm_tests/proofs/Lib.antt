mod DrivenAsked
mod DrivenFirst
mod DrivenKept
mod DrivenTurned
mod LaunchingFirst
mod LaunchingKept
