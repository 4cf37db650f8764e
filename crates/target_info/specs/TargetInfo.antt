-- What is looked for in a list of pairs: the first pair with an id, the timestamp, the server's names.
use Rattle.std.specs.Prelude.{Result, Option, Ok, Err, Some, None, ℕ, Bool, cond, List, [], ◌∷◌, length, is_some}
use Rattle.av_id.specs.declared.AvId.{AvId}
use Rattle.av_id.specs.AvId.{same_id, is_nb_computer_name, is_nb_domain_name, is_timestamp}
use Rattle.wire.specs.declared.refusal.Refusal.{Refusal}
use Rattle.wire.specs.Check.{on_clear}
use Rattle.wire.specs.Number.{u64_at}
use Rattle.av_pairs.specs.declared.AvPair.{AvPair}
use Rattle.av_pairs.specs.AvPairs.{check_pairs, pairs_of}
use Rattle.target_info.specs.declared.Contents.{Contents}
use Rattle.target_info.specs.declared.ServerNames.{ServerNames}

-- the first pair whose id answers a question with yes
abbrev pub first_by : (AvId → Bool) → List AvPair → Option AvPair
first_by is [] = None
first_by is (p ∷ ps) = cond (is p.id) (Some p) (first_by is ps)

unfoldable pub first_pair : AvId → List ℕ → Option AvPair
first_pair id s = first_by (same_id id) (pairs_of s)

-- a search: checks 10 to 13 on the whole list, which refuse, and then the first pair with the id
unfoldable pub find_pair : AvId → List ℕ → Result (Option AvPair) Refusal
find_pair id s = on_clear Err (check_pairs s) (Ok (first_pair id s))

-- a timestamp pair's value as a number
abbrev pub time_of : List ℕ → Option AvPair → Option ℕ
time_of list (Some p) = Some (u64_at list p.at)
time_of list None = None

-- the timestamp of a list of pairs: the value of the first pair 7
unfoldable pub timestamp_in : List ℕ → Option ℕ
timestamp_in list = time_of list (first_by is_timestamp (pairs_of list))

-- the timestamp with one more pair: the first that was seen stays
abbrev pub time_with : Option ℕ → List ℕ → AvPair → Option ℕ
time_with (Some t) list p = Some t
time_with None list p = cond (is_timestamp p.id) (Some (u64_at list p.at)) None

-- what a list holds: how many pairs, and the timestamp
abbrev pub contents_of : List ℕ → Contents
contents_of list = record { pairs = length (pairs_of list); timestamp = timestamp_in list }

-- a list read: checks 10 to 13 on the whole of it, which refuse, and then what it holds
unfoldable pub read_list : List ℕ → Result Contents Refusal
read_list list = on_clear Err (check_pairs list) (Ok (contents_of list))

-- which of pairs 1 and 2 are in a list
unfoldable pub server_names_in : List ℕ → ServerNames
server_names_in list =
    record {
      nb_computer_name = is_some (first_by is_nb_computer_name (pairs_of list));
      nb_domain_name = is_some (first_by is_nb_domain_name (pairs_of list));
    }
