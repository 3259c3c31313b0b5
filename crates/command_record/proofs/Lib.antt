mod PeerPrefixes
