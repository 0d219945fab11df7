pub mod PassRecords
