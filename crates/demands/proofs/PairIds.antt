-- Each question of a pair's id goes by its number.
use Rattle.demands.specs.PairIds.{PairIdsByNumber}
use Rattle.demands.proofs.OwnBytes.ChallengeOwn.{asks}

pub pair_ids_by_number : PairIdsByNumber
pair_ids_by_number a =
    record {
      end = asks 0 a;
      nb_computer_name = asks 1 a;
      nb_domain_name = asks 2 a;
      dns_computer_name = asks 3 a;
      dns_domain_name = asks 4 a;
      dns_tree_name = asks 5 a;
      flags = asks 6 a;
      timestamp = asks 7 a;
      target_name = asks 9 a;
      channel_bindings = asks 10 a;
    }
