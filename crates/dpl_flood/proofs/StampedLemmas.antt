-- Numbers that are written under a stamp.
use Rattle.std.proofs.Common.{arith, ◌≡◌, ◌≢◌, ℕ, ◌<◌, ◌==◌, sym, ap, ◌∙◌, map, Option, Some, None, List, length, get_or, replicate, eq-eqb}
use Rattle.std.specs.Prelude.{All, slice_set}
use Rattle.std.proofs.lemmas.Bool.{cond-true, cond-false, ne_eqb}
use Rattle.std.proofs.lemmas.List.{ext_get_or, get_or-map, get_or-replicate, length-map, length-replicate, map-set}
use Rattle.dpl_flood.specs.declared.stamped.Entry.{Entry}
use Rattle.dpl_flood.specs.Holdings.{number_under}

-- an entry that stands where there is none
abbrev pub no_entry : Entry
no_entry = record { stamp = 0; number = 0 }

pub under_other : (stamp : ℕ) (e : Entry) → e.stamp ≢ stamp → number_under stamp e ≡ None
under_other stamp e ne = cond-false {A = Option ℕ} (e.stamp == stamp) (Some e.number) None (ne_eqb e.stamp stamp ne)

pub under_own : (stamp number : ℕ) → number_under stamp (record { stamp = stamp; number = number }) ≡ Some number
under_own stamp number = cond-true {A = Option ℕ} (stamp == stamp) (Some number) None (eq-eqb stamp stamp (λ _. stamp))

-- what was written under earlier stamps counts for nothing
pub all_forgotten : (stamp places : ℕ) (entries : List Entry) → length entries ≡ places → All (λ e. e.stamp < stamp) entries
    → map (number_under stamp) entries ≡ replicate places None
all_forgotten stamp places entries many early =
    ext_get_or None (map (number_under stamp) entries) (replicate places None)
    (length-map entries (number_under stamp) ∙ many ∙ sym (length-replicate {A = Option ℕ} places None)) (λ i h.
    let inside : i < length entries = omega (arith, h, length-map entries (number_under stamp)) in
    get_or-map (number_under stamp) entries i no_entry None inside
    ∙ under_other stamp (get_or entries i no_entry) (λ e. omega (arith, e, early i no_entry inside))
    ∙ sym (get_or-replicate places i None None (omega (arith, inside, many))))

-- places that were never written
pub never_written : (places : ℕ) (entries : List Entry) → entries ≡ replicate places no_entry → map (number_under 1) entries ≡ replicate places None
never_written places entries e =
    ap (map (number_under 1)) e
    ∙ all_forgotten 1 places (replicate places no_entry) (length-replicate places no_entry) (λ i d h.
    omega (arith, ap (λ (z : Entry). z.stamp) (get_or-replicate places i no_entry d (omega (arith, h, length-replicate places no_entry)))))

-- one entry is written
pub entry_written : (stamp place : ℕ) (entries : List Entry) (e : Entry) (o : Option ℕ) → number_under stamp e ≡ o
    → map (number_under stamp) (slice_set entries place e) ≡ slice_set (map (number_under stamp) entries) place o
entry_written stamp place entries e o is =
    map-set (number_under stamp) entries place e ∙ ap (slice_set (map (number_under stamp) entries) place) is
