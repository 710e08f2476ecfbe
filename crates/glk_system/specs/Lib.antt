pub mod OsFiles
