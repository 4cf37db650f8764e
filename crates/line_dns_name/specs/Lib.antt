pub mod DnsNameText
