-- Document 01, of TargetInfo: "Ids: 0 end, 1 NetBIOS computer, 2 NetBIOS domain, 3 DNS computer, 4 DNS domain, 5 DNS tree, 6 flags
-- (4 bytes), 7 timestamp (8), 8 single host, 9 target name, 10 channel bindings (16)", as MS-NLMP 2.2.2.1 numbers them. "Flag bits and
-- pair ids are named once": a name is a question of `AvId`, which all readers ask. 8 decides nothing, and no question asks for it.
use Rattle.std.specs.Prelude.{◌≡◌, true, ◌↔◌}
use Rattle.av_id.specs.declared.AvId.{AvId}
use Rattle.av_id.specs.AvId.{is_end, is_nb_computer_name, is_nb_domain_name, is_dns_computer_name, is_dns_domain_name, is_dns_tree_name, is_flags, is_timestamp, is_target_name, is_channel_bindings}

-- each question says yes exactly of its number
pub record ByNumber (a : AvId) : Type 0 where
  pub end : (is_end a ≡ true) ↔ (a.id ≡ 0)
  pub nb_computer_name : (is_nb_computer_name a ≡ true) ↔ (a.id ≡ 1)
  pub nb_domain_name : (is_nb_domain_name a ≡ true) ↔ (a.id ≡ 2)
  pub dns_computer_name : (is_dns_computer_name a ≡ true) ↔ (a.id ≡ 3)
  pub dns_domain_name : (is_dns_domain_name a ≡ true) ↔ (a.id ≡ 4)
  pub dns_tree_name : (is_dns_tree_name a ≡ true) ↔ (a.id ≡ 5)
  pub flags : (is_flags a ≡ true) ↔ (a.id ≡ 6)
  pub timestamp : (is_timestamp a ≡ true) ↔ (a.id ≡ 7)
  pub target_name : (is_target_name a ≡ true) ↔ (a.id ≡ 9)
  pub channel_bindings : (is_channel_bindings a ≡ true) ↔ (a.id ≡ 10)

abbrev pub PairIdsByNumber : Type 0
PairIdsByNumber = (a : AvId) → ByNumber a
