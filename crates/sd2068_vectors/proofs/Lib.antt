mod Examples
mod FileExamples
