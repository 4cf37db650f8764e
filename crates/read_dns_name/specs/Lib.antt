pub mod DnsName
pub mod Rfc1035
