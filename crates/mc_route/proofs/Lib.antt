mod PartSteps
mod Items
mod Shows
mod LaunchSteps
mod Placed
mod KeyParts
mod Finding
mod ClassReplies
