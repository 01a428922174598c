-- What one read after another gave.
use Rattle.std.proofs.Common.{◌≡◌, ℕ, ◌+◌, ◌-◌, ◌<◌, ◌≤◌, ◌⊎◌, List, [], ◌++◌, length, length-append, append_assoc}
use Rattle.std.proofs.Common.{Option, None, Some, Result, Err, ap, ◌∙◌, sym, inl, inr, refl, arith}
use Rattle.std.specs.Prelude.{IfSome}
use Rattle.std.proofs.lemmas.List.{append-nil}
use Rattle.std.specs.Io.KnownBytes.{Consumes}
use Rattle.dpl_ext.specs.declared.reading.ReadEnd.{ReadEnd}
use Rattle.dpl_ext.specs.declared.reading.ReadEnd.TheVariants.{Fault, TooLong, NoMemory}
use Rattle.dpl_ext.specs.Device.{Seen, Gave, Rose}
use Rattle.dpl_ext.specs.Reading.{GivesPiece, StopsPiece, HandsOn, HandsWhole, Refuses, TookFront}

Consumes-append : (a b c : Option (List ℕ)) (xs ys : List ℕ) → Consumes a b xs → Consumes b c ys → Consumes a c (xs ++ ys)
Consumes-append None b c xs ys p q = tt
Consumes-append (Some s) (Some t) None xs ys p q = absurd q
Consumes-append (Some s) (Some t) (Some u) xs ys p q = p ∙ ap (λ z. xs ++ z) q ∙ sym (append_assoc xs ys u)
Consumes-append (Some s) None c xs ys p q = absurd p

Consumes-nothing : (a : Option (List ℕ)) → Consumes a a []
Consumes-nothing None = tt
Consumes-nothing (Some s) = refl

Gave-nothing : (a : Seen) → Gave a a []
Gave-nothing a = record {
  front = Consumes-nothing a.left;
  counted = (omega arith, omega arith);
  later = omega arith;
  same = refl;
}

pub Gave-append : (a b c : Seen) (xs ys : List ℕ) → Gave a b xs → Gave b c ys → Gave a c (xs ++ ys)
Gave-append a b c xs ys p q = record {
  front = Consumes-append a.left b.left c.left xs ys p.front q.front;
  counted = simp length-append (omega arith, omega arith);
  later = omega arith;
  same = q.same ∙ p.same;
}

-- nothing was read yet
pub HandsOn-nothing : (a : Seen) (got : List ℕ) → HandsOn a a got got 0
HandsOn-nothing a got = record {
  bytes = [];
  gave = Gave-nothing a;
  got_is = sym (append-nil got);
  counted = refl;
  steady = refl;
}

-- a piece more was handed on
pub HandsOn-more : (a b c : Seen) (got got_now got_then : List ℕ) (taken room count : ℕ) → HandsOn a b got got_now taken
    → GivesPiece b c got_now got_then room count → HandsOn a c got got_then (taken + count)
HandsOn-more a b c got got_now got_then taken room count p q = record {
  bytes = p.bytes ++ q.piece;
  gave = Gave-append a b c p.bytes q.piece p.gave q.gave;
  got_is = rw (q.got_is, p.got_is) (append_assoc got p.bytes q.piece);
  counted = rw (length-append p.bytes q.piece, p.counted, q.counted) refl;
  steady = q.steady ∙ p.steady;
}

-- the piece without a byte was the last one
pub HandsWhole-end : (a b c : Seen) (got got_now got_then : List ℕ) (taken limit count : ℕ) → HandsOn a b got got_now taken
    → GivesPiece b c got_now got_then (limit - taken) count → taken ≤ limit → count ≡ 0 → HandsWhole a c got got_then limit
HandsWhole-end a b c got got_now got_then taken limit count p q w e =
    let all = HandsOn-more a b c got got_now got_then taken (limit - taken) count p q in
    record {
      bytes = all.bytes;
      whole = record {
        gave = all.gave;
        at_end = q.at_end e;
        within = omega (arith, all.counted, q.within);
        steady = all.steady;
      };
      got_is = all.got_is;
    }

-- a read that stopped, behind what was handed on
pub Refuses-stop : (a b c : Seen) (got got_now : List ℕ) (taken limit : ℕ) (error : ReadEnd) → HandsOn a b got got_now taken
    → StopsPiece b c taken limit error → Refuses a c limit error
Refuses-stop a b c got got_now taken limit Fault p q = record {
  taken = p.bytes ++ q.piece;
  gave = Gave-append a b c p.bytes q.piece p.gave q.gave;
  means = rw (length-append p.bytes q.piece, p.counted, ← p.steady) q.means;
}
Refuses-stop a b c got got_now taken limit TooLong p q = record {
  taken = p.bytes ++ q.piece;
  gave = Gave-append a b c p.bytes q.piece p.gave q.gave;
  means = rw (length-append p.bytes q.piece, p.counted, ← p.steady) q.means;
}
Refuses-stop a b c got got_now taken limit NoMemory p q = record {
  taken = p.bytes ++ q.piece;
  gave = Gave-append a b c p.bytes q.piece p.gave q.gave;
  means = rw (length-append p.bytes q.piece, p.counted) q.means;
}

-- the taker has what came before a read that stopped
pub TookFront-stop : (a b c : Seen) (got got_now got_then : List ℕ) (taken limit : ℕ) (error : ReadEnd) → HandsOn a b got got_now taken
    → StopsPiece b c taken limit error → got_then ≡ got_now → taken ≤ limit → TookFront a c limit got got_then
TookFront-stop a b c got got_now got_then taken limit error p q e w = record {
  front = p.bytes;
  rest = q.piece;
  gave = Gave-append a b c p.bytes q.piece p.gave q.gave;
  got_is = e ∙ p.got_is;
  within = omega (arith, p.counted, w);
}

-- what holds of every value holds of the one that may be there
pub IfSome-each : {X : Type 0} (o : Option X) (P : X → Type 0) → ((x : X) → P x) → IfSome o P
IfSome-each None P each = tt
IfSome-each (Some x) P each = each x

-- where no call failed, a refusal is TooLong or NoMemory
refused_without_fault : {T : Type 0} (r : Result T ReadEnd) (a c : Seen) (limit : ℕ) (error : ReadEnd)
    → r ≡ Err error → Refuses a c limit error → ¬ Rose a.faults c.faults
    → (r ≡ Err TooLong) ⊎ (r ≡ Err NoMemory)
refused_without_fault r a c limit Fault e p none = absurd (none p.means.0)
refused_without_fault r a c limit TooLong e p none = inl e
refused_without_fault r a c limit NoMemory e p none = inr e

pub long_refused : {T : Type 0} (r : Result T ReadEnd) (a c : Seen) (limit : ℕ) (error : ReadEnd)
    → r ≡ Err error → Refuses a c limit error
    → IfSome a.left (λ xs. limit < length xs → ¬ Rose a.faults c.faults → (r ≡ Err TooLong) ⊎ (r ≡ Err NoMemory))
long_refused r a c limit error e p = IfSome-each a.left
    (λ xs. limit < length xs → ¬ Rose a.faults c.faults → (r ≡ Err TooLong) ⊎ (r ≡ Err NoMemory))
    (λ xs longer none. refused_without_fault r a c limit error e p none)
