-- What a clean frame is: each of its words is a codeword. And what receiving it gives: with no marks no word is changed, and a good trailer is accepted
-- with e = f = bits = 0. This stands here, and not in specs/, since edits in must-fail/ turn what a clean frame is, and what figures and map receiving gives.
-- Assumes nothing.
use Rattle.std.specs.Prelude.{◌≡◌, Result, Bool, ℕ, zero, suc, ◌+◌, ◌*◌, ◌/◌, ◌%◌, ◌≤◌, ◌<◌, T, if◌then◌else◌}
use Rattle.std.proofs.Math.Path.{refl, sym, ap}
use Rattle.std.proofs.Common.{◌∙◌, div-lt_iff_lt-mul, mul-zero, not-suc-le-zero}
use Rattle.std.proofs.Math.Bool.{true, false}
use mathlib.Core.List.{List, []}
use Rattle.std.specs.declared.option.Option as Rust
use Rattle.std.proofs.Math.Option
use Rattle.std.proofs.Math.Option.{Option, some, none}
use Rattle.std.proofs.Math.Nat.{mod-lt}
use Rattle.std.proofs.Math.Decide.{dec_lt}
use native.Mathlib.Omega.{arith}
use borrow.Author.Tests.{lt-ltb, le-ltb, not-true, not-false}
use Rattle.std.proofs.Math.Dec.{ltb}
use Rattle.std.proofs.Math.ListN.{length, get_or, take, replicate, length-replicate, get_or-replicate}
use Rattle.algebra.specs.Tests.{at, below_same, passed, first_none, First, first_tells}
use Rattle.algebra.specs.Lists.{tabulated, joined, joined_at, joined_same}
use Rattle.algebra.specs.Refusal.{new}
use Rattle.word.specs.Setting.{message_size, allowed_yes}
use Rattle.word.specs.Codeword.{is_codeword, in_reach}
use Rattle.word.specs.Code.{corrected}
use Rattle.word.specs.Code.Laws.{corrected_some}
use Rattle.word.specs.Map.{changes, unchanged}
use Rattle.word.specs.Map.Laws.{length_changes, changes_self, changes_none}
use Rattle.word.specs.Answers.{no_figures, figures}
use Rattle.word.specs.Clean.Laws.{no_marks, kept_figures, clean_kept, kept_clean}
use Rattle.word.specs.declared.Setting.{Setting}
use Rattle.interleave.specs.Slots.{word_in, slot_byte, word_rule, length_word, word_back, spread_rule}
use Rattle.frame.specs.Frame.{word_setting, area_size, slot_count, is_none, corrected_word, message_of, figures_at, changes_at, beyond, area_received, figures_received, map_received, trailer_good, ReceiveOutcome, number_of, received_of, receive_outcome, settled, decoded_frame, receiving}
use Rattle.frame.specs.Clean.{is_yes, unclean_word, CleanOutcome, clean_outcome, is_unclean, unclean, found, clean_refusal, cleanness}
use Rattle.frame.specs.Promises.{Receives, IsClean}
use Rattle.frame.specs.Checks.{ReceiveChecked, receive_passes, CleanChecked, clean_passes}
use Rattle.frame.specs.Mapping.{zeros_at}
use Rattle.frame.specs.declared.setting.Framing.{Framing}
use Rattle.frame.specs.declared.setting.ReceiveError.{ReceiveError}
use Rattle.frame.specs.declared.setting.Received.{Received}
use Rattle.frame.specs.declared.clean.CleanError.{CleanError}

positive : (n j t : ℕ) → t < n * j → 0 < j
positive n zero t l = absurd (not-suc-le-zero (rw (mul-zero n) at l))
positive n (suc j) t l = omega arith

-- ---- its words

module _ (f : Framing) (slots : List ℕ) where
  abbrev J : ℕ
  J = f.depth

  abbrev s : Setting
  s = word_setting f

  abbrev word : ℕ → List ℕ
  word w = word_in J f.n slots w

  module _ (c : CleanChecked f slots) (d : Result (Rust.Option ℕ) CleanError) (p : IsClean f slots d) where
    told : clean_outcome d ≡ found J (unclean f slots)
    unfolding cleanness
    told = p.outcome ∙ sym (new (clean_refusal f slots) _ _ (sym (clean_passes f slots c)))

    search : First J (is_unclean f slots) (unclean f slots)
    unfolding unclean
    search = first_tells J (is_unclean f slots)

    -- what is found, either way
    no_word : unclean f slots < J → clean_outcome d ≡ record { number = 0; clean = false; word = unclean f slots }
    no_word l = told ∙ rw (lt-ltb (unclean f slots) J l)

    every_word : J ≤ unclean f slots → clean_outcome d ≡ record { number = 0; clean = true; word = 0 }
    every_word l = told ∙ rw (le-ltb (unclean f slots) J l)

    differ : true ≡ false → ⊥
    differ e = let z : ◌≡◌ {A = ℕ} 0 1 = cc in omega arith

    codeword_before : (i : ℕ) → i < unclean f slots → T (is_codeword s (word i))
    codeword_before i l = rw (not-false (is_codeword s (word i)) (search.before i l)) tt

    -- a clean frame has none but codewords
    pub clean_words : is_yes d ≡ true → (w : ℕ) → w < J → T (is_codeword s (word w))
    clean_words y w l = elim (dec_lt (unclean f slots) J) [
      | yes u ↦ absurd (differ (sym y ∙ ap (λ (o : CleanOutcome). o.clean) (no_word u)))
      | no u ↦ codeword_before w (omega arith)
    ]

    -- and a frame that has none but codewords is clean
    pub words_clean : ((w : ℕ) → w < J → T (is_codeword s (word w))) → is_yes d ≡ true
    words_clean h = elim (dec_lt (unclean f slots) J) [
      | yes u ↦ absurd (differ (sym (passed (is_codeword s (word (unclean f slots))) (h (unclean f slots) u)) ∙ not-true (is_codeword s (word (unclean f slots))) (search.here u)))
      | no u ↦ ap (λ (o : CleanOutcome). o.clean) (every_word (omega arith))
    ]

    -- one that is not clean names the first that is none
    pub unclean_first : is_yes d ≡ false → (unclean_word d < J) × (is_codeword s (word (unclean_word d)) ≡ false) × ((i : ℕ) → i < unclean_word d → T (is_codeword s (word i)))
    unclean_first y = elim (dec_lt (unclean f slots) J) [
      | yes u ↦
          let e : unclean_word d ≡ unclean f slots = ap (λ (o : CleanOutcome). o.word) (no_word u) in
          rw e (u, not-true (is_codeword s (word (unclean f slots))) (search.here u), codeword_before)
      | no u ↦ absurd (differ (sym (ap (λ (o : CleanOutcome). o.clean) (every_word (omega arith))) ∙ y))
    ]

  -- ---- what receiving it with no marks gives

  abbrev quiet : List ℕ
  quiet = replicate (slot_count f) 0

  quiet_word : (w : ℕ) → word_in J f.n quiet w ≡ no_marks f.n
  quiet_word w =
      word_rule J f.n quiet w
      ∙ sym (tabulated (no_marks f.n) f.n (slot_byte J w quiet) 0 (length-replicate f.n 0) λ i l. zeros_at f.n i ∙ sym (zeros_at (slot_count f) (i * J + w)))

  -- each word that is a codeword is kept, and each that is kept is a codeword
  pub word_kept : CleanChecked f slots → (w : ℕ) → T (is_codeword s (word w)) → corrected_word f slots quiet w ≡ some (word w)
  unfolding corrected_word
  word_kept c w t = ap (λ (m : List ℕ). corrected s m (word w)) (quiet_word w) ∙ clean_kept s (word w) (rw (← allowed_yes s c.limits.words) tt) t

  pub kept_word : (w : ℕ) → corrected_word f slots quiet w ≡ some (word w) → T (is_codeword s (word w))
  unfolding corrected_word
  kept_word w e = kept_clean s (word w) (word_in J f.n quiet w) e

  -- a word that is kept gives its own message, no figures and no change
  module _ (w : ℕ) (e : corrected_word f slots quiet w ≡ some (word w)) where
    kept_message : message_of f slots quiet w ≡ take (message_size s) (word w)
    unfolding message_of
    kept_message = rw e

    no_figures_lem : figures_at f slots quiet w ≡ no_figures
    unfolding figures_at
    no_figures_lem = ap (λ (o : Option (List ℕ)). figures (word_in J f.n quiet w) (word w) (Option.get_or o [])) e ∙ ap (λ (m : List ℕ). figures m (word w) (word w)) (quiet_word w) ∙ kept_figures f.n (word w)

    no_change : changes_at f slots quiet w ≡ replicate f.n 0
    unfolding changes_at
    no_change = ap (λ (o : Option (List ℕ)). changes (word w) (Option.get_or o [])) e ∙ sym (changes_self (word w)) ∙ ap (λ (k : ℕ). replicate k 0) (length_word J f.n slots w)

  -- the area as received: each word's first k bytes
  abbrev pub area_taken : List ℕ
  area_taken = joined J λ w. take (message_size s) (word w)

  -- all words kept
  module _ (keep : (w : ℕ) → w < J → corrected_word f slots quiet w ≡ some (word w)) where
    none_beyond : beyond f slots quiet ≡ J
    unfolding beyond
    none_beyond = first_none J (λ w. is_none (corrected_word f slots quiet w)) λ w l. rw (keep w l)

    area_kept : area_received f slots quiet ≡ area_taken
    unfolding area_received
    area_kept = joined_same J (message_of f slots quiet) (λ w. take (message_size s) (word w)) λ w l. kept_message w (keep w l)

    figures_none : figures_received f slots quiet ≡ replicate 16 no_figures
    unfolding figures_received
    figures_none = sym (tabulated (replicate 16 no_figures) 16 (λ w. if ltb w J then figures_at f slots quiet w else no_figures) no_figures refl each)
      where
        each : (w : ℕ) → w < 16 → get_or (replicate 16 no_figures) w no_figures ≡ (if ltb w J then figures_at f slots quiet w else no_figures)
        each w l = get_or-replicate 16 w no_figures no_figures l ∙ elim (dec_lt w J) [
          | yes h ↦ rw (lt-ltb w J h) (sym (no_figures_lem w (keep w h)))
          | no h ↦ rw (le-ltb w J (omega arith))
        ]

    map_none : map_received f slots quiet ≡ quiet
    unfolding map_received
    map_none =
        spread_rule J f.n (joined J (changes_at f slots quiet))
        ∙ sym (tabulated quiet (slot_count f) (λ t. at (joined J (changes_at f slots quiet)) (t % J * f.n + t / J)) 0 (length-replicate (slot_count f) 0) slot)
      where
        slot : (t : ℕ) → t < slot_count f → at quiet t ≡ at (joined J (changes_at f slots quiet)) (t % J * f.n + t / J)
        slot t l =
            let some_words : 0 < J = positive f.n J t l in
            let turn : t % J < J = mod-lt t some_words in
            zeros_at (slot_count f) t
            ∙ sym (joined_at f.n (changes_at f slots quiet) J (λ i h. ap length (no_change i (keep i h)) ∙ length-replicate f.n 0) (t % J) (t / J) turn ((div-lt_iff_lt-mul some_words).1 l)
            ∙ ap (λ (v : List ℕ). at v (t / J)) (no_change (t % J) (keep (t % J) turn)) ∙ zeros_at f.n (t / J))

  -- ---- the two calls

  module _ (c : CleanChecked f slots) (d : Result (Rust.Option ℕ) CleanError) (p : IsClean f slots d) (area map : List ℕ) (area_size_lem : length area ≡ area_size f) (map_size : length map ≡ slot_count f)
      (r : Result Received ReceiveError) (left left_map : List ℕ) (q : Receives f slots quiet area map r left left_map) where
    given : ReceiveChecked f slots quiet area map
    given = record {
      limits = c.limits;
      slots_size = c.slots_size;
      marks_size = length-replicate (slot_count f) 0;
      marks_small = below_same 2 (slot_count f) 0 (omega arith);
      area_size_lem = area_size_lem;
      map_size = map_size;
    }

    received : receive_outcome r left left_map ≡ decoded_frame f slots quiet
    unfolding receiving
    received = q.outcome ∙ sym (new _ _ _ (sym (receive_passes f slots quiet area map given)))

    -- clean exactly where no byte is changed in any word
    pub clean_keeps : is_yes d ≡ true → (w : ℕ) → w < J → corrected_word f slots quiet w ≡ some (word w)
    clean_keeps y w l = word_kept c w (clean_words c d p y w l)

    pub keeps_clean : ((w : ℕ) → w < J → corrected_word f slots quiet w ≡ some (word w)) → is_yes d ≡ true
    keeps_clean h = words_clean c d p λ w l. kept_word w (h w l)

    -- then receiving comes to the trailer
    clean_settles : is_yes d ≡ true → receive_outcome r left left_map ≡ settled (area_size f) (replicate 16 no_figures) area_taken quiet
    unfolding decoded_frame
    clean_settles y =
        let keep = clean_keeps y in
        received ∙ rw (none_beyond keep, le-ltb J J (omega arith), area_kept keep, figures_none keep, map_none keep)

    -- a good one is accepted, and nothing was wrong or changed
    pub clean_accepted : is_yes d ≡ true → trailer_good (area_size f) area_taken ≡ true
        → (number_of r ≡ 0) × ((received_of r).figures ≡ replicate 16 no_figures) × (left ≡ area_taken) × (left_map ≡ quiet)
    unfolding settled
    clean_accepted y good = (
      ap (λ (o : ReceiveOutcome). o.number) (clean_settles y) ∙ rw good,
      ap (λ (o : ReceiveOutcome). o.figures) (clean_settles y) ∙ rw good,
      ap (λ (o : ReceiveOutcome). o.area) (clean_settles y) ∙ rw good,
      ap (λ (o : ReceiveOutcome). o.map) (clean_settles y) ∙ rw good,
    )

    -- and a bad one is refused 5: a clean frame is never beyond reach
    pub clean_refused_5 : is_yes d ≡ true → trailer_good (area_size f) area_taken ≡ false → number_of r ≡ 5
    unfolding settled
    clean_refused_5 y bad = ap (λ (o : ReceiveOutcome). o.number) (clean_settles y) ∙ rw bad

    -- an accepted frame is clean exactly where its map is all 0
    within_reach : number_of r ≡ 0 → J ≤ beyond f slots quiet
    unfolding decoded_frame
    within_reach z = elim (dec_lt (beyond f slots quiet) J) [
      | yes l ↦ let four : number_of r ≡ 4 = ap (λ (o : ReceiveOutcome). o.number) received ∙ rw (lt-ltb (beyond f slots quiet) J l) in absurd (omega arith)
      | no l ↦ omega arith
    ]

    settles : J ≤ beyond f slots quiet → receive_outcome r left left_map ≡ settled (area_size f) (figures_received f slots quiet) (area_received f slots quiet) (map_received f slots quiet)
    unfolding decoded_frame
    settles l = received ∙ rw (le-ltb (beyond f slots quiet) J l)

    map_told : number_of r ≡ 0 → left_map ≡ map_received f slots quiet
    unfolding settled
    map_told z = go (trailer_good (area_size f) (area_received f slots quiet)) refl
      where
        go : (b : Bool) → trailer_good (area_size f) (area_received f slots quiet) ≡ b → left_map ≡ map_received f slots quiet
        go true e = ap (λ (o : ReceiveOutcome). o.map) (settles (within_reach z)) ∙ rw e
        go false e = let five : number_of r ≡ 5 = ap (λ (o : ReceiveOutcome). o.number) (settles (within_reach z)) ∙ rw e in absurd (omega arith)

    reached : number_of r ≡ 0 → (w : ℕ) → w < J → is_none (corrected_word f slots quiet w) ≡ false
    unfolding beyond
    reached z w l = (first_tells J (λ i. is_none (corrected_word f slots quiet i))).before w (omega (arith, within_reach z))

    -- a word whose map is all 0 is kept
    unmapped : left_map ≡ map_received f slots quiet → left_map ≡ quiet → (w : ℕ) → w < J → changes_at f slots quiet w ≡ unchanged (word w)
    unfolding map_received changes_at
    unmapped m e w l =
        sym (word_back J f.n (changes_at f slots quiet) (λ i h. length_changes (word i) _ ∙ length_word J f.n slots i) w l) ∙ ap (λ (v : List ℕ). word_in J f.n v w) (sym m ∙ e)
        ∙ quiet_word w ∙ ap (λ (k : ℕ). replicate k 0) (sym (length_word J f.n slots w))

    pub accepted_clean : number_of r ≡ 0 → left_map ≡ quiet → is_yes d ≡ true
    unfolding corrected_word changes_at
    accepted_clean z e = keeps_clean λ w l. keep w l (corrected_word f slots quiet w) refl (reached z w l)
      where
        keep : (w : ℕ) → w < J → (o : Option (List ℕ)) → corrected_word f slots quiet w ≡ o → is_none (corrected_word f slots quiet w) ≡ false → corrected_word f slots quiet w ≡ some (word w)
        keep w l (some v) g b =
            let size : length v ≡ f.n = (in_reach s (word_in J f.n quiet w) (word w) v (corrected_some s (word_in J f.n quiet w) (word w) v g)).code.size in
            let none : changes (word w) v ≡ unchanged (word w) = rw g at (unmapped (map_told z) e w l) in
            g ∙ ap some (sym (changes_none (word w) v (size ∙ sym (length_word J f.n slots w)) none))
        keep w l none g b = absurd (differ c d p (ap is_none (sym g) ∙ b))
