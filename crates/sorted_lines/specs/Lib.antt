pub mod SortedLines
