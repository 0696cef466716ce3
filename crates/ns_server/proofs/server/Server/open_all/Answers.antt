use Rattle.std.proofs.Common.{◌≡◌, ℕ, ◌+◌, refl, ap, ◌∙◌}
use Rattle.std.specs.Prelude.{slice_index}
use Rattle.ns_tally.specs.Tally.{Held}
use Rattle.ns_server.proofs.server.Server.open_all.Goals as goal

-- the shares are the same at each shard
counted : (first made k : ℕ) (now all : Held) → made ≡ first + slice_index now.amounts k → now ≡ all → made ≡ first + slice_index all.amounts k
counted first made k now all is same = is ∙ ap (λ (h : Held). first + slice_index h.amounts k) same

pub returns-clause-roster : goal.returns-clause-roster
returns-clause-roster g c = c.self.invariant.2

pub returns-clause-states : goal.returns-clause-states
returns-clause-states g c = (
  c.open_one.ensures.state,
  (
    c.open_one-2.ensures.state,
    (
      c.open_one-3.ensures.state,
      (
        c.open_one-4.ensures.state,
        (
          c.open_one-5.ensures.state,
          (
            c.open_one-6.ensures.state,
            (
              c.open_one-7.ensures.state,
              (
                c.open_one-8.ensures.state,
                (
                  c.open_one-9.ensures.state,
                  (
                    c.open_one-10.ensures.state,
                    (
                      c.open_one-11.ensures.state,
                      (
                        c.open_one-12.ensures.state,
                        (
                          c.open_one-13.ensures.state,
                          (
                            c.open_one-14.ensures.state,
                            (
                              c.open_one-15.ensures.state,
                              (c.open_one-16.ensures.state, tt),
                            ),
                          ),
                        ),
                      ),
                    ),
                  ),
                ),
              ),
            ),
          ),
        ),
      ),
    ),
  ),
)

pub returns-clause-made : goal.returns-clause-made
returns-clause-made g c =
    let same_0 = c.open_one.ensures.same in
    let same_1 = c.open_one-2.ensures.same ∙ same_0 in
    let same_2 = c.open_one-3.ensures.same ∙ same_1 in
    let same_3 = c.open_one-4.ensures.same ∙ same_2 in
    let same_4 = c.open_one-5.ensures.same ∙ same_3 in
    let same_5 = c.open_one-6.ensures.same ∙ same_4 in
    let same_6 = c.open_one-7.ensures.same ∙ same_5 in
    let same_7 = c.open_one-8.ensures.same ∙ same_6 in
    let same_8 = c.open_one-9.ensures.same ∙ same_7 in
    let same_9 = c.open_one-10.ensures.same ∙ same_8 in
    let same_10 = c.open_one-11.ensures.same ∙ same_9 in
    let same_11 = c.open_one-12.ensures.same ∙ same_10 in
    let same_12 = c.open_one-13.ensures.same ∙ same_11 in
    let same_13 = c.open_one-14.ensures.same ∙ same_12 in
    let same_14 = c.open_one-15.ensures.same ∙ same_13 in (
      c.open_one.ensures.made,
      (
        counted _ _ _ _ _ c.open_one-2.ensures.made same_0,
        (
          counted _ _ _ _ _ c.open_one-3.ensures.made same_1,
          (
            counted _ _ _ _ _ c.open_one-4.ensures.made same_2,
            (
              counted _ _ _ _ _ c.open_one-5.ensures.made same_3,
              (
                counted _ _ _ _ _ c.open_one-6.ensures.made same_4,
                (
                  counted _ _ _ _ _ c.open_one-7.ensures.made same_5,
                  (
                    counted _ _ _ _ _ c.open_one-8.ensures.made same_6,
                    (
                      counted _ _ _ _ _ c.open_one-9.ensures.made same_7,
                      (
                        counted _ _ _ _ _ c.open_one-10.ensures.made same_8,
                        (
                          counted _ _ _ _ _ c.open_one-11.ensures.made same_9,
                          (
                            counted _ _ _ _ _ c.open_one-12.ensures.made same_10,
                            (
                              counted _ _ _ _ _ c.open_one-13.ensures.made same_11,
                              (
                                counted _ _ _ _ _ c.open_one-14.ensures.made same_12,
                                (
                                  counted _ _ _ _ _ c.open_one-15.ensures.made same_13,
                                  (counted _ _ _ _ _ c.open_one-16.ensures.made same_14, tt),
                                ),
                              ),
                            ),
                          ),
                        ),
                      ),
                    ),
                  ),
                ),
              ),
            ),
          ),
        ),
      ),
    )

pub returns-clause-begun : goal.returns-clause-begun
returns-clause-begun g c = (
  c.open_one.ensures.begun,
  (
    c.open_one-2.ensures.begun,
    (
      c.open_one-3.ensures.begun,
      (
        c.open_one-4.ensures.begun,
        (
          c.open_one-5.ensures.begun,
          (
            c.open_one-6.ensures.begun,
            (
              c.open_one-7.ensures.begun,
              (
                c.open_one-8.ensures.begun,
                (
                  c.open_one-9.ensures.begun,
                  (
                    c.open_one-10.ensures.begun,
                    (
                      c.open_one-11.ensures.begun,
                      (
                        c.open_one-12.ensures.begun,
                        (
                          c.open_one-13.ensures.begun,
                          (
                            c.open_one-14.ensures.begun,
                            (
                              c.open_one-15.ensures.begun,
                              (c.open_one-16.ensures.begun, tt),
                            ),
                          ),
                        ),
                      ),
                    ),
                  ),
                ),
              ),
            ),
          ),
        ),
      ),
    ),
  ),
)

pub returns-clause-sixteen : goal.returns-clause-sixteen
returns-clause-sixteen g c = refl
