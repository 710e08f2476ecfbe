pub mod Ones
mod RisingLists
mod Leasts
mod Lists
mod SomeOrder
pub mod SomeTasks
