pub mod Max
