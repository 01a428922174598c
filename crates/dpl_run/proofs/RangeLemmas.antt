-- What a command line asks for has its options in their ranges.
use Rattle.std.proofs.Common.{arith, ◌≡◌, ◌≢◌, ◌≤◌, ℕ, Bool, true, false, ◌&&◌, nat_le, List, [], ◌∷◌, length, Option, None, Some, refl, ap, subst}
use Rattle.std.specs.Prelude.{Result, Ok, Err, IfSome, option_map, option_and_then, ok_or, codes, if◌then◌else◌}
use Rattle.std.specs.List.{list_all}
use Rattle.std.proofs.lemmas.Bool.{leb-true, le-leb, and_parts}
use Rattle.std.proofs.lemmas.Option.{cond_some}
use Rattle.dpl_limits.specs.declared.TheConstants.{MOST_SPACE, MOST_WEIGHT}
use Rattle.dpl_lex.specs.Classes.{is_name_byte}
use Rattle.dpl_lex.specs.Number.{digits_value}
use Rattle.dpl_options.specs.Options.{PlainWeights, PlainOptions, AreWeights, IsSplitLayer, AreOptions}
use Rattle.dpl_rules.specs.Readers.{◌>>=◌}
use Rattle.dpl_words.specs.Commands.{Values, asked_by, of_mode, of_given, of_values, command_in, work_in, plain_options_in, plain_weights_in, layer_in, keep_in, corner_in, number_in, is_layer, is_number}
use Rattle.dpl_words.specs.Grammar.{Text, Given, given_in, mode_of}
use Rattle.dpl_words.specs.declared.mode.Mode.{Mode}
use Rattle.dpl_words.specs.declared.mode.Mode.TheVariants as word
use Rattle.dpl_words.specs.declared.command.Command.{Command}
use Rattle.dpl_words.specs.declared.command.Command.TheVariants as asked
use Rattle.dpl_words.specs.declared.work.Work.{Work}

-- ---- values

number_range : (least most : ℕ) (text : Text) (n : ℕ) → number_in least most text ≡ Some n → (least ≤ n) × (n ≤ most)
number_range least most text n e =
    let v = digits_value 0 text in
    let c = cond_some (is_number text && nat_le least v && nat_le v most) v n e in
    let d = and_parts (is_number text && nat_le least v) (nat_le v most) c.0 in
    let f = and_parts (is_number text) (nat_le least v) d.0 in
    rw (← c.1) (leb-true least v f.1, leb-true v most d.1)

given_range : (least most : ℕ) (x : Option Text) (n : ℕ) → option_and_then (number_in least most) x ≡ Some n → (least ≤ n) × (n ≤ most)
given_range least most None n e = absurd (cc)
given_range least most (Some text) n e = number_range least most text n e

name_range : (text name : Text) → layer_in text ≡ Some name → IsSplitLayer name
name_range text name e =
    let c = cond_some (is_layer text) text name e in
    let d = and_parts (nat_le 1 (length text) && nat_le (length text) 31) (list_all is_name_byte text) c.0 in
    let f = and_parts (nat_le 1 (length text)) (nat_le (length text) 31) d.0 in
    let short = leb-true (length text) 31 f.1 in
    let long = le-leb (length text) 32 (omega (arith, short)) in
    rw (← c.1) (rw (f.0, long, d.1) refl, short)

layer_range : (x : Option Text) (name : Text) → option_and_then layer_in x ≡ Some name → IsSplitLayer name
layer_range None name e = absurd (cc)
layer_range (Some text) name e = name_range text name e

corner_range : (conflict : ℕ) (x : Option Text) (n : ℕ) → (1 ≤ conflict) × (conflict ≤ MOST_WEIGHT)
    → corner_in conflict x ≡ Some n → (1 ≤ n) × (n ≤ MOST_WEIGHT)
corner_range conflict None n h e = let same : conflict ≡ n = cc in subst (λ z. (1 ≤ z) × (z ≤ MOST_WEIGHT)) same h
corner_range conflict (Some text) n h e = number_range 1 MOST_WEIGHT text n e

kept_name : (x keep : Option Text) → ((name : Text) → x ≡ Some name → IsSplitLayer name)
    → option_map Some x ≡ Some keep → IfSome keep IsSplitLayer
kept_name None keep h e = absurd (cc)
kept_name (Some name) keep h e =
    let same : ◌≡◌ {A = Option Text} (Some name) keep = cc in
    subst (λ z. IfSome z IsSplitLayer) same (h name refl)

keep_range : (x keep : Option Text) → keep_in x ≡ Some keep → IfSome keep IsSplitLayer
keep_range None keep e =
    let same : ◌≡◌ {A = Option Text} None keep = cc in
    subst (λ z. IfSome z IsSplitLayer) same tt
keep_range (Some text) keep e = kept_name (layer_in text) keep (λ name is. name_range text name is) e

-- ---- weights and options

-- a weight is in its range
abbrev IsWeight : ℕ → Type 0
IsWeight n = (1 ≤ n) × (n ≤ MOST_WEIGHT)

corner_last : (stitch conflict : ℕ) (corner : Option ℕ) (w : PlainWeights) → IsWeight stitch → IsWeight conflict
    → ((n : ℕ) → corner ≡ Some n → IsWeight n)
    → (corner >>= λ c. Some (record { stitch = stitch; conflict = conflict; corner = c })) ≡ Some w → AreWeights w
corner_last stitch conflict None w s k c e = absurd (cc)
corner_last stitch conflict (Some n) w s k c e =
    let made : PlainWeights = record { stitch = stitch; conflict = conflict; corner = n } in
    let same : made ≡ w = cc in
    subst AreWeights same (record {
      some_stitch = s.0;
      most_stitch = s.1;
      some_conflict = k.0;
      most_conflict = k.1;
      some_corner = (c n refl).0;
      most_corner = (c n refl).1;
    })

weights_from : (stitch conflict : Option ℕ) (corner : ℕ → Option ℕ) (w : PlainWeights)
    → ((n : ℕ) → stitch ≡ Some n → IsWeight n) → ((n : ℕ) → conflict ≡ Some n → IsWeight n)
    → ((k n : ℕ) → IsWeight k → corner k ≡ Some n → IsWeight n)
    → (stitch >>= λ s. conflict >>= λ k. corner k >>= λ c. Some (record { stitch = s; conflict = k; corner = c })) ≡ Some w
    → AreWeights w
weights_from None conflict corner w s k c e = absurd (cc)
weights_from (Some a) None corner w s k c e = absurd (cc)
weights_from (Some a) (Some b) corner w s k c e = corner_last a b (corner b) w (s a refl) (k b refl) (λ n. c b n (k b refl)) e

weights_range : (value : Values) (w : PlainWeights) → plain_weights_in value ≡ Some w → AreWeights w
weights_range value w e =
    weights_from (option_and_then (number_in 1 MOST_WEIGHT) (value (codes "stitch")))
    (option_and_then (number_in 1 MOST_WEIGHT) (value (codes "conflict"))) (λ k. corner_in k (value (codes "corner"))) w
    (given_range 1 MOST_WEIGHT (value (codes "stitch"))) (given_range 1 MOST_WEIGHT (value (codes "conflict")))
    (λ k n h is. corner_range k (value (codes "corner")) n h is) e

options_from : (layer : Option Text) (space overlap : Option ℕ) (weights : Option PlainWeights) (keep : Option (Option Text))
    (o : PlainOptions) → ((name : Text) → layer ≡ Some name → IsSplitLayer name)
    → ((n : ℕ) → space ≡ Some n → (1 ≤ n) × (n ≤ MOST_SPACE)) → ((n : ℕ) → overlap ≡ Some n → (1 ≤ n) × (n ≤ MOST_SPACE))
    → ((w : PlainWeights) → weights ≡ Some w → AreWeights w) → ((k : Option Text) → keep ≡ Some k → IfSome k IsSplitLayer)
    → (layer >>= λ l. space >>= λ s. overlap >>= λ v. weights >>= λ w. keep >>= λ k.
    Some (record { layer = l; space = s; overlap = v; weights = w; keep = k })) ≡ Some o → AreOptions o
options_from None space overlap weights keep o hl hs hv hw hk e = absurd (cc)
options_from (Some l) None overlap weights keep o hl hs hv hw hk e = absurd (cc)
options_from (Some l) (Some s) None weights keep o hl hs hv hw hk e = absurd (cc)
options_from (Some l) (Some s) (Some v) None keep o hl hs hv hw hk e = absurd (cc)
options_from (Some l) (Some s) (Some v) (Some w) None o hl hs hv hw hk e = absurd (cc)
options_from (Some l) (Some s) (Some v) (Some w) (Some k) o hl hs hv hw hk e =
    let made : PlainOptions = record { layer = l; space = s; overlap = v; weights = w; keep = k } in
    let same : made ≡ o = cc in
    subst AreOptions same (record {
      layer = hl l refl;
      some_space = (hs s refl).0;
      most_space = (hs s refl).1;
      some_overlap = (hv v refl).0;
      most_overlap = (hv v refl).1;
      weights = hw w refl;
      keep = hk k refl;
    })

options_range : (value : Values) (o : PlainOptions) → plain_options_in value ≡ Some o → AreOptions o
options_range value o e =
    options_from (option_and_then layer_in (value (codes "layer")))
    (option_and_then (number_in 1 MOST_SPACE) (value (codes "space")))
    (option_and_then (number_in 1 MOST_SPACE) (value (codes "overlap"))) (plain_weights_in value)
    (keep_in (value (codes "keep"))) o (layer_range (value (codes "layer"))) (given_range 1 MOST_SPACE (value (codes "space")))
    (given_range 1 MOST_SPACE (value (codes "overlap"))) (weights_range value) (keep_range (value (codes "keep"))) e

-- ---- the words of work on a layout

not_loaded : (start rows columns : Option ℕ) (o : PlainOptions) (work : Work Text)
    → (start >>= λ s. rows >>= λ r. columns >>= λ c. Some (asked.Load s r c)) ≢ Some (asked.Layout o work)
not_loaded None rows columns o work e = absurd (cc)
not_loaded (Some s) None columns o work e = absurd (cc)
not_loaded (Some s) (Some r) None o work e = absurd (cc)
not_loaded (Some s) (Some r) (Some c) o work e = absurd (cc)

laid_out : (x : Option PlainOptions) (y : Option (Work Text)) (o : PlainOptions) (work : Work Text)
    → ((p : PlainOptions) → x ≡ Some p → AreOptions p)
    → (x >>= λ options. y >>= λ named. Some (asked.Layout options named)) ≡ Some (asked.Layout o work) → AreOptions o
laid_out None y o work h e = absurd (cc)
laid_out (Some p) None o work h e = absurd (cc)
laid_out (Some p) (Some w) o work h e = let same : p ≡ o = cc in subst AreOptions same (h p refl)

in_mode : (mode : Mode) (value : Values) (o : PlainOptions) (work : Work Text) → command_in mode value ≡ Some (asked.Layout o work) → AreOptions o
in_mode (word.Layout asks) value o work e = laid_out (plain_options_in value) (work_in asks value) o work (options_range value) e
in_mode word.Load value o work e =
    absurd (not_loaded (option_and_then (number_in 0 1000000000000) (value (codes "start")))
    (option_and_then (number_in 1 200) (value (codes "rows"))) (option_and_then (number_in 1 200) (value (codes "columns"))) o work e)

where_ok : (b : Bool) (x : Result Command ℕ) (kind : ℕ) (c : Command) → (if b then x else Err kind) ≡ Ok c → x ≡ Ok c
where_ok true x kind c e = e
where_ok false x kind c e = absurd (cc)

some_of : (x : Option Command) (kind : ℕ) (c : Command) → ok_or x kind ≡ Ok c → x ≡ Some c
some_of None kind c e = absurd (cc)
some_of (Some d) kind c e = let same : d ≡ c = cc in ap Some same

of_values_range : (mode : Mode) (value : Values) (o : PlainOptions) (work : Work Text) → of_values mode value ≡ Ok (asked.Layout o work) → AreOptions o
of_values_range mode value o work e =
    in_mode mode value o work (some_of (command_in mode value) 3 (asked.Layout o work)
    (where_ok _ (ok_or (command_in mode value) 3) 2 (asked.Layout o work) e))

of_given_range : (mode : Mode) (gs : Option (List Given)) (o : PlainOptions) (work : Work Text) → of_given mode gs ≡ Ok (asked.Layout o work) → AreOptions o
of_given_range mode None o work e = absurd (cc)
of_given_range mode (Some gs) o work e = of_values_range mode _ o work (where_ok _ (of_values mode _) 1 (asked.Layout o work) e)

of_mode_range : (mode : Option Mode) (words : List Text) (o : PlainOptions) (work : Work Text) → of_mode mode words ≡ Ok (asked.Layout o work) → AreOptions o
of_mode_range None words o work e = absurd (cc)
of_mode_range (Some mode) words o work e = of_given_range mode (given_in None words) o work e

-- the options of work on a layout are in their ranges
pub layout_range : (words : List Text) (o : PlainOptions) (work : Work Text) → asked_by words ≡ Ok (asked.Layout o work) → AreOptions o
layout_range [] o work e = absurd (cc)
layout_range (first ∷ words) o work e = of_mode_range (mode_of first) words o work e
