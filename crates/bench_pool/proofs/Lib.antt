mod LineSteps
mod Following
mod WorkerSteps
