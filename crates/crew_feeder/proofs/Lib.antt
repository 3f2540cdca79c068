mod WorkRows
mod WorkProgress
