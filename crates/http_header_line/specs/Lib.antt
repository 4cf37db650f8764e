pub mod HttpHeader
