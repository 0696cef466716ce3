mod NoticeLemmas
