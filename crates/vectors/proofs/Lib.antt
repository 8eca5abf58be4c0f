mod CopySteps
mod DigestSteps
