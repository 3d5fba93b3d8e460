-- The topology of a script is one that a synchroniser can be made for.
use Rattle.std.proofs.Common.{◌≡◌, ℕ, ◌+◌, ◌≤◌, true, List, [], length, map, Option, Some, None, Result, Ok, Err, ok_or, refl, sym, ap, ◌∙◌, arith, pos, negsuc, ℤ}
use Rattle.std.specs.Prelude.{codes, IfOk}
use Rattle.std.specs.List.{AllByRecursion}
use Rattle.std.proofs.lemmas.Bool.Decides.{nat_tests}
use Rattle.std.proofs.lemmas.List.{take_all, length-map}
use Rattle.serde_json.specs.Data.{Data, Items}
use Rattle.serde_json.specs.Find.{as_number, as_i64, get}
use Rattle.ledger_terms.specs.Pointers.{at_member}
use Rattle.ledger_terms.specs.Packages.{PackageForm}
use Rattle.ledger_terms.specs.Topologies.{HasNames, IsObserving, IsWait, IsValid}
use Rattle.ledger_terms.specs.declared.host.Host.{Host}
use Rattle.ledger_terms.specs.declared.params.Params.{Params}
use Rattle.ledger_terms.specs.declared.topology.Topology.{Topology}
use Rattle.json_walk.specs.declared.limits.TheConstants.{TIMEOUT}
use Rattle.json_walk.specs.Walk.{Place, integer_of, within, count_found, items_of, item_count, json_of}
use Rattle.ledger_terms.specs.Answers.{check, Follows}
use Rattle.json_walk.specs.declared.walk_fault.WalkFault.{WalkFault}
use Rattle.json_walk.specs.declared.walk_fault.WalkFault.TheVariants.{Shape, NotInteger, Memory}
use Rattle.json_walk.specs.declared.walk_fault.WalkFault.TheVariants as fault
use Rattle.script_read.specs.declared.script_fault.ScriptFault.TheVariants as script
use Rattle.json_walk.specs.declared.limit.Limit.{Limit}
use Rattle.script_read.specs.Hosts.{participants_at, participants_of, hosts_of, hosts_in, wait_if, wait_in, response_in, reaction_in, skew_in, params_of, vetting_step, vetting_in}
use Rattle.script_read.specs.Observing.{observing_step, observing_of}
use Rattle.script_read.specs.Rounds.{rounds_in}
use Rattle.script_read.specs.Triggers.{triggers_in}
use Rattle.trigger_rules.specs.declared.rule.Rule.{Rule}
use Rattle.script_read.specs.Script.{has_script_members, topology_in, checked_in, script_of, script_in}
use Rattle.script_read.specs.declared.round.Round.{Round}
use Rattle.script_read.specs.declared.script.Script.{Script}
use Rattle.json_walk.proofs.Kept.{after, passed, given, walk_keeps}
use Rattle.script_read.proofs.FromWalks.{after_walk}
use Rattle.script_read.proofs.HostKeys.{key, AreKept}
use Rattle.script_read.proofs.HostWalks.{AreHosts, hosts_kept, hosts_same}
use Rattle.script_read.proofs.Lists.{all_of, each_weaker}
use Rattle.script_read.proofs.ObservingHosts.{observing_kept}
use Rattle.script_read.proofs.SameHosts.{AreSame, same_keys, observing_same}
use Rattle.script_read.proofs.VettedHosts.{vetting_kept}

-- ---- times

in_range : (low high : ℕ) (z : ℤ) (n : ℕ) → within low high z ≡ true → n ≡ count_found z → (low ≤ n) × (n ≤ high)
in_range low high (pos m) n h e = (grind (arith, nat_tests), grind (arith, nat_tests))
in_range low high (negsuc m) n h e = absurd (cc)

pub integer_range : (at : Place) (limit : Limit) (d : Data) (n : ℕ) → integer_of at limit d ≡ Ok n → (limit.least ≤ n) × (n ≤ limit.most)
unfolding integer_of
integer_range at limit d n h =
    let a = after (ok_or (as_number d) (Shape at)) _ n h in
    let b = after (ok_or (as_i64 a.0) (NotInteger at)) _ n a.2 in
    let c = after (check (within limit.least limit.most b.0) (fault.Limit at limit.number (count_found b.0))) _ n b.2 in
    in_range limit.least limit.most b.0 n (passed _ _ c.0 c.1) (given (count_found b.0) n c.2)

wait_range : (at : Place) (default : ℕ) (o : Option Data) (n : ℕ) → 100000 ≤ default → default ≤ 1000000000000 → wait_if at default o ≡ Ok n → IsWait n
wait_range at default None n p q h = let same = given default n h in record { least = omega arith; most = omega arith }
wait_range at default (Some d) n p q h =
    let r = integer_range at TIMEOUT d n h in record { least = omega (arith, r.0); most = omega (arith, r.1) }

-- three times in their ranges
pub record AreTimes (params : Params) : Type 0 where
  response : IsWait params.response_timeout
  reaction : IsWait params.reaction_timeout
  skew : IsWait params.skew

times_valid : (d : Data) (params : Params) → params_of d ≡ Ok params → AreTimes params
unfolding params_of response_in reaction_in skew_in wait_in
times_valid d params h =
    let a = after (response_in d) _ params h in
    let b = after (reaction_in d) _ params a.2 in
    let c = after (skew_in d) _ params b.2 in
    rw (given (record { response_timeout = a.0; reaction_timeout = b.0; skew = c.0 }) params c.2) (record {
      response = wait_range (at_member [] (codes "response_timeout")) 30000000 (get (codes "response_timeout") d) a.0 (omega arith) (omega arith) a.1;
      reaction = wait_range (at_member [] (codes "reaction_timeout")) 30000000 (get (codes "reaction_timeout") d) b.0 (omega arith) (omega arith) b.1;
      skew = wait_range (at_member [] (codes "skew")) 60000000 (get (codes "skew") d) c.0 (omega arith) (omega arith) c.1;
    })

-- ---- participants

-- as many as were read keep their names and parties, and what they observe is confirmed by one of them
pub record AreAll (read kept : List Host) : Type 0 where
  pub keys : map key kept ≡ map key read
  pub observing : AllByRecursion (IsObserving kept) kept

all_kept : (read kept : List Host) (n : ℕ) → length read ≡ n → AreKept read (0 + n) kept → AreAll read kept
all_kept read kept n many are =
    let all : length (map key read) ≤ 0 + n = omega (arith, many, length-map read key) in
    let keys = are.keys ∙ take_all _ (map key read) all in
    record { keys = keys; observing = each_weaker (IsObserving read) (IsObserving kept) kept (observing_same read kept (same_keys read kept keys)) are.each }

-- 1 to 8 of them, read from the items of the member
pub record AreRead (d : Data) (hosts : List Host) : Type 0 where
  member : Data
  items : Items
  count : ℕ
  found : participants_of d ≡ Ok member
  listed : items_of participants_at member ≡ Ok items
  some : 1 ≤ item_count items
  few : item_count items ≤ 8
  kept : AreHosts (item_count items) (hosts, count)
  observing : AllByRecursion (IsObserving hosts) hosts

pub hosts_read : (d : Data) (hosts : List Host) → hosts_in d ≡ Ok hosts → AreRead d hosts
unfolding hosts_in observing_of
hosts_read d hosts h =
    let m = after (participants_of d) _ hosts h in
    let s = after (hosts_of participants_at m.0) _ hosts m.2 in
    let i = after (items_of participants_at m.0) _ hosts s.2 in
    let kept = hosts_kept participants_at m.0 s.0 s.1 in
    let same = given kept.0 i.0 (sym kept.1 ∙ i.1) in
    let done = walk_keeps (observing_step s.0.0 participants_at) (AreKept s.0.0) (observing_kept s.0.0 participants_at) 0 [] hosts i.0 (record { keys = refl; each = tt }) i.2 in
    let all = all_kept s.0.0 hosts (item_count i.0) (rw same (kept.4.many)) done in
    record {
      member = m.0;
      items = kept.0;
      count = s.0.1;
      found = m.1;
      listed = kept.1;
      some = kept.2;
      few = kept.3;
      kept = hosts_same (item_count kept.0) s.0.1 hosts s.0.0 all.keys kept.4;
      observing = all.observing;
    }

pub hosts_few : (d m : Data) (read : List Host × ℕ) (r : Result (List Host) WalkFault) → participants_of d ≡ Ok m → hosts_of participants_at m ≡ Ok read → Follows Memory r (observing_of read.0 participants_at m)
    → IfOk r (λ hosts. length hosts ≤ 8)
unfolding hosts_in
hosts_few d m read (Ok hosts) found listed h =
    let whole : hosts_in d ≡ Ok hosts = rw (found, listed) h in
    let r = hosts_read d hosts whole in
    omega (arith, r.kept.many, r.few)
hosts_few d m read (Err e) found listed h = tt

-- those with what they have vetted
pub vetted_all : (packages : List PackageForm) (d : Data) (known hosts : List Host) → AreRead d known → vetting_in packages known d ≡ Ok hosts → AreAll known hosts
unfolding vetting_in
vetted_all packages d known hosts r h =
    let m = after (participants_of d) _ hosts h in
    let t = after (items_of participants_at m.0) _ hosts m.2 in
    let one = given r.member m.0 (sym r.found ∙ m.1) in
    let items = given r.items t.0 (sym r.listed ∙ (ap (items_of participants_at) (sym one) ∙ t.1)) in
    let kept = walk_keeps (vetting_step packages known participants_at) (AreKept known) (vetting_kept packages known r.observing participants_at) 0 [] hosts t.0 (record { keys = refl; each = tt }) t.2 in
    all_kept known hosts (item_count t.0) (rw items (r.kept.many)) kept

-- ---- the whole

known_valid : (packages : List PackageForm) (d : Data) (known hosts : List Host) (params : Params) → AreRead d known → AreTimes params → vetting_in packages known d ≡ Ok hosts → IsValid (record { hosts = hosts; params = params })
known_valid packages d known hosts params r t h =
    let all = vetted_all packages d known hosts r h in
    let are = hosts_same (item_count r.items) r.count hosts known all.keys r.kept in
    record {
      some_host = omega (arith, are.many, r.some);
      few_hosts = omega (arith, are.many, r.few);
      few_parties = omega (arith, are.counted, are.few);
      apart = are.apart;
      named = all_of HasNames hosts are.named;
      observing = all_of (IsObserving hosts) hosts all.observing;
      response_timeout = t.response;
      reaction_timeout = t.reaction;
      skew = t.skew;
    }

-- what a script was put together from
pub record IsRead (s : Script) : Type 0 where
  pub d : Data
  pub known : Topology
  pub checked : List PackageForm
  pub hosts : List Host
  pub triggers : List Rule
  pub rounds : List Round
  pub found : AreRead d known.hosts
  pub times : AreTimes known.params
  pub checked_is : checked_in known.hosts d ≡ Ok checked
  pub hosts_are : vetting_in checked known.hosts d ≡ Ok hosts
  pub triggers_are : triggers_in known.hosts d ≡ Ok triggers
  pub rounds_are : rounds_in known.hosts triggers d ≡ Ok rounds
  pub whole : s ≡ record { topology = record { hosts = hosts; params = known.params }; checked = checked; triggers = triggers; rounds = rounds }

pub script_parts : (bytes : List ℕ) (s : Script) → script_in bytes ≡ Ok s → IsRead s
unfolding script_in script_of topology_in
script_parts bytes s h =
    let v = after_walk (json_of bytes) _ s h in
    let a = after (check (has_script_members v.0) (script.Shape [])) _ s v.2 in
    let known = after_walk (topology_in v.0) _ s a.2 in
    let checked = after (checked_in known.0.hosts v.0) _ s known.2 in
    let hosts = after_walk (vetting_in checked.0 known.0.hosts v.0) _ s checked.2 in
    let triggers = after_walk (triggers_in known.0.hosts v.0) _ s hosts.2 in
    let rounds = after_walk (rounds_in known.0.hosts triggers.0 v.0) _ s triggers.2 in
    let x = after (hosts_in v.0) _ known.0 known.1 in
    let y = after (params_of v.0) _ known.0 x.2 in
    let whole = given (record { hosts = x.0; params = y.0 }) known.0 y.2 in
    let own : known.0.hosts ≡ x.0 = ap (λ (t : Topology). t.hosts) whole in
    let times : known.0.params ≡ y.0 = ap (λ (t : Topology). t.params) whole in
    record {
      d = v.0;
      known = known.0;
      checked = checked.0;
      hosts = hosts.0;
      triggers = triggers.0;
      rounds = rounds.0;
      found = rw own (hosts_read v.0 x.0 x.1);
      times = rw times (times_valid v.0 y.0 y.1);
      checked_is = checked.1;
      hosts_are = hosts.1;
      triggers_are = triggers.1;
      rounds_are = rounds.1;
      whole = given (record { topology = record { hosts = hosts.0; params = known.0.params }; checked = checked.0; triggers = triggers.0; rounds = rounds.0 }) s rounds.2;
    }

pub same_hosts : (s : Script) (r : IsRead s) → AreSame r.known.hosts r.hosts
same_hosts s r = same_keys r.known.hosts r.hosts (vetted_all r.checked r.d r.known.hosts r.hosts r.found r.hosts_are).keys

pub valid_read : (s : Script) → IsRead s → IsValid s.topology
valid_read s r = rw r.whole (known_valid r.checked r.d r.known.hosts r.hosts r.known.params r.found r.times r.hosts_are)
